-- Members, where no field is left.
use Rattle.std.proofs.Common.{◌≡◌, List, [], ◌∷◌, length, refl, arith}
use Rattle.serde_json.specs.Data.{Members}
use Rattle.word_core.specs.declared.field.Field.{Field}
use Rattle.word_core.specs.Forms.{Blanks}
use Rattle.desk_core.specs.CommandText.{with_fields}

pub none_left : (fs : Blanks) (xs : List Field) (ms : Members) → length xs ≡ 0 → with_fields fs xs ms ≡ ms
none_left [] xs ms e = refl
none_left (f ∷ fs) [] ms e = refl
none_left (f ∷ fs) (x ∷ xs) ms e = absurd (omega (arith, e))
