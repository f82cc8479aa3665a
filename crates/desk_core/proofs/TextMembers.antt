-- A member that comes into a map stands where it is put.
use Rattle.std.proofs.Common.{◌≡◌, ℕ, List, [], ◌∷◌, refl, ◌∙◌}
use Rattle.std.proofs.Common.{Ordering, Less, Equal, Greater, nat_cmp}
use Rattle.std.specs.Borrow.{Bor}
use Rattle.std.specs.Ordering.{match_ordering}
use Rattle.std.specs.Cmp.Lexicographic.{slice_cmp}
use Rattle.std.specs.BTreeMap.{insert_entry}
use Rattle.serde_json.specs.Data.{member, put}
use Rattle.desk_core.specs.TextWriting.{value_data, in_order}
use Rattle.desk_core.specs.declared.texts.MemberValue.{MemberValue}

by_order : (o : Ordering) (a b c : List (Bor (List ℕ) × MemberValue))
    → in_order (match_ordering o a b c) ≡ match_ordering o (in_order a) (in_order b) (in_order c)
by_order Less a b c = refl
by_order Equal a b c = refl
by_order Greater a b c = refl

pub in_order_insert : (es : List (Bor (List ℕ) × MemberValue)) (k : Bor (List ℕ)) (x : MemberValue)
    → in_order (insert_entry (λ a b. slice_cmp nat_cmp a.now b.now) es k x)
    ≡ put k.now (value_data x) (in_order es)
in_order_insert [] k x = refl
in_order_insert (e ∷ es) k x =
    by_order (slice_cmp nat_cmp k.now e.0.now) _ _ _ ∙ rw (in_order_insert es k x) refl
