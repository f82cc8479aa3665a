-- A request, as it is put together.
use Rattle.std.proofs.Common.{◌≡◌, ◌∙◌, ◌++◌, ap, List, [], ℕ}
use Rattle.desk_http.proofs.Built.{built}

pub eight : (t0 t1 t2 t3 t4 t5 t6 t7 t8 a1 a2 a3 a4 a5 a6 a7 a8 : List ℕ) → t0 ≡ [] → t1 ≡ t0 ++ a1 → t2 ≡ t1 ++ a2
    → t3 ≡ t2 ++ a3 → t4 ≡ t3 ++ a4 → t5 ≡ t4 ++ a5 → t6 ≡ t5 ++ a6 → t7 ≡ t6 ++ a7 → t8 ≡ t7 ++ a8
    → t8 ≡ a1 ++ a2 ++ a3 ++ a4 ++ a5 ++ a6 ++ a7 ++ a8
eight t0 t1 t2 t3 t4 t5 t6 t7 t8 a1 a2 a3 a4 a5 a6 a7 a8 e0 e1 e2 e3 e4 e5 e6 e7 e8 =
    e8 ∙ ap (λ v. v ++ a8) (built t0 t1 t2 t3 t4 t5 t6 t7 a1 a2 a3 a4 a5 a6 a7 e0 e1 e2 e3 e4 e5 e6 e7)
