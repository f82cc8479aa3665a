use Rattle.std.proofs.Common.{◌≡◌, ◌∙◌, ap, subst, sym, take, length, min, ℕ, List}
use Rattle.std.proofs.Math.Nat.{min_comm}
use Rattle.std.proofs.lemmas.List.{take_min}
use Rattle.std.specs.Str.{IsUtf8}
use Rattle.word_core.specs.Day.{day_of}
use Rattle.desk_core.specs.Key.{is_key}
use Rattle.list_core.specs.Origins.{key_day}
use Rattle.list_core.proofs.KeyFronts.{front_is_text}
use Rattle.list_core.proofs.origins.key_day.Goals as goal

-- the front that is read are the first ten bytes
front_is : (n : ℕ) (bytes key : List ℕ) → n ≡ min (length bytes) 10 → bytes ≡ key → take n bytes ≡ take 10 key
front_is n bytes key count same =
    ap (λ m. take m bytes) (count ∙ min_comm (length bytes) 10) ∙ take_min 10 bytes ∙ ap (take 10) same

pub returns-in-Ok : goal.returns-in-Ok
unfolding key_day
returns-in-Ok c =
    let same = c.as_bytes-bytes.ensures.value ∙ c.as_str.ensures.value in
    c.parse.ensures
    ∙ ap day_of (c.in-Ok.ensures.cases.0
    ∙ front_is c.min.result c.as_bytes-bytes.result.now c.args.key.now c.min.ensures same)

pub returns-in-Err : goal.returns-in-Err
returns-in-Err c =
    let same = c.as_bytes-bytes.ensures.value ∙ c.as_str.ensures.value in
    absurd (c.in-Err.ensures.cases.0 (subst IsUtf8
    (sym (front_is c.min.result c.as_bytes-bytes.result.now c.args.key.now c.min.ensures same))
    (front_is_text 10 c.args.key.now c.as_str.ensures.fits)))
