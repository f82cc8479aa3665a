use Rattle.std.proofs.Common.{◌≡◌, ◌∙◌, Bool, true, false, refl, sym}
use Rattle.std.specs.Prelude.{◌||◌}
use Rattle.std.specs.Str.{bytes_eq}
use Rattle.word_core.specs.Twice.{stands_twice}
use Rattle.stock_core.proofs.serials.are_taken.Goals as goal

or_one : (a b : Bool) → true ≡ b → true ≡ (a || b)
or_one true b e = refl
or_one false b e = e

or_none : (a b : Bool) → false ≡ b → a ≡ (a || b)
or_none true b e = refl
or_none false b e = e

pub returns-then-is_one_held : goal.returns-then-is_one_held
returns-then-is_one_held c =
    or_one (stands_twice bytes_eq c.args.serials.now) _ (sym c.if-is_one_held.true ∙ c.is_one_held.ensures)

pub returns : goal.returns
returns c =
    c.stands_twice.ensures
    ∙ or_none (stands_twice bytes_eq c.args.serials.now) _ (sym c.if-is_one_held.false ∙ c.is_one_held.ensures)
