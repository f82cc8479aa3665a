use Rattle.std.proofs.Common.{◌≡◌, ◌∙◌, [], None, ap, drop, inl, inr, length, rules, sym}
use Rattle.std.specs.Prelude.{◌⊎◌}
use Rattle.std.specs.Iterator.Adapters.{zip_first, zip_second}
use Rattle.std.specs.Slice.Iter.{iter_rest}
use Rattle.std.proofs.lemmas.Slice.Zip.{Zip-so_far, either_empty_from_Zip}
use Rattle.word_core.specs.Forms.{shown_fields}
use Rattle.desk_core.specs.ShopView.{state_of}
use Rattle.list_core.specs.Facts.{facts_from}
use Rattle.report_core.specs.Lines.{fields_of}
use Rattle.list_core.proofs.FactsLeft.{all_told}
use Rattle.list_core.proofs.command_facts.facts_from.Goals as goal

-- no blank is left, or no field
pub returns : goal.returns
returns c =
    let s = state_of c.args.shop.now in
    let blanks = c.args.blanks.now in
    let fields = c.args.fields.now in
    let n = length c.loop-name.yielded in
    let start = c.into_iter-name-iterator.result in
    let first : iter_rest (zip_first start) ≡ blanks = search rules in
    let second : iter_rest (zip_second start) ≡ fields = search rules in
    let front = Zip-so_far c.loop-name.yielded start c.loop-name.name-iterator c.loop-name.yielded_by in
    let none : c.next.result ≡ None = cc in
    let ended =
    either_empty_from_Zip c.loop-name.name-iterator c.next.new.self c.next.result none c.next.ensures.steps in
    let left : (shown_fields (drop n blanks) ≡ []) ⊎ (drop n fields ≡ []) = elim ended [
      | inl e ↦ inl (ap shown_fields (sym (front.0 ∙ ap (drop n) first) ∙ e))
      | inr e ↦ inr (sym (front.1 ∙ ap (drop n) second) ∙ e)
    ] in
    all_told s (shown_fields (drop n blanks)) (drop n fields) (fields_of c.loop-name.facts)
    (facts_from s (shown_fields blanks) fields) left c.loop-name.invariant
