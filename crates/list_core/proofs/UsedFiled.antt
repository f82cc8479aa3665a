-- Items that builds used are filed under the build.
use Rattle.std.proofs.Common.{◌≡◌, ℕ, true, [], refl, ap, eq-eqb, eqb-true}
use Rattle.std.specs.Prelude.{◌==◌}
use Rattle.sheet_core.specs.Indexed.{IsFiledUnder}
use Rattle.list_core.specs.Used.{used_key, used_keys}

pub used_filed : (n : ℕ) → IsFiledUnder used_keys (used_key n) (λ u. u.build == n)
used_filed n u e = rw (eq-eqb (used_key u.build) (used_key n) (ap used_key (eqb-true u.build n e))) refl
