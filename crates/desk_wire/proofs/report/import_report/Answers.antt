use Rattle.std.proofs.Common.{◌≡◌, [], length, drop, inl, inr, sym, ap, ◌∙◌, rules, None}
use Rattle.std.specs.Prelude.{◌⊎◌}
use Rattle.std.specs.String.{string_bytes}
use Rattle.std.specs.Iterator.Adapters.{zip_first, zip_second}
use Rattle.std.specs.Slice.Iter.{iter_rest}
use Rattle.std.proofs.lemmas.Slice.Zip.{Zip-so_far, either_empty_from_Zip}
use Rattle.desk_wire.specs.ImportReports.{import_text}
use Rattle.desk_wire.proofs.ImportReports.{all-told}
use Rattle.desk_wire.proofs.report.import_report.Goals as goal

pub returns : goal.returns
returns c =
    let numbers = c.args.numbers.now in
    let outcomes = c.args.outcomes.now in
    let n = length c.loop-number.yielded in
    let start = c.into_iter-number-iterator.result in
    let first : iter_rest (zip_first start) ≡ numbers = search rules in
    let second : iter_rest (zip_second start) ≡ outcomes = search rules in
    let front = Zip-so_far c.loop-number.yielded start c.loop-number.number-iterator c.loop-number.yielded_by in
    let none : c.next.result ≡ None = cc in
    let ended =
    either_empty_from_Zip c.loop-number.number-iterator c.next.new.self c.next.result none c.next.ensures.steps in
    let left : (drop n numbers ≡ []) ⊎ (drop n outcomes ≡ []) = elim ended [
      | inl e ↦ inl (sym (front.0 ∙ ap (drop n) first) ∙ e)
      | inr e ↦ inr (sym (front.1 ∙ ap (drop n) second) ∙ e)
    ] in
    all-told (drop n numbers) (drop n outcomes) (import_text numbers outcomes) (string_bytes c.loop-number.text) left
    c.loop-number.invariant
