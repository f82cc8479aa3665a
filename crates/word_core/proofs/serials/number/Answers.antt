use Rattle.std.proofs.Common.{◌≡◌, true, cond, Some, None, sym, ap, ◌∙◌}
use Rattle.std.specs.Result.{result_ok}
use Rattle.std.specs.Str.Parse.{digits_value}
use Rattle.std.proofs.lemmas.Str.Parse.{parse_gives}
use Rattle.word_core.specs.Serials.{is_number}
use Rattle.word_core.proofs.Numerals.{numerals, digits_value-small, number_digits}
use Rattle.word_core.proofs.serials.number.Goals as goal

pub returns-then-is_number : goal.returns-then-is_number
returns-then-is_number c =
    let text = c.args.text.now in
    let is : is_number text ≡ true = cc in
    let n = number_digits text is in
    let parsed =
    parse_gives numerals 64 text _ c.parse.ensures.value.0 n.digits n.some (digits_value-small text n.digits n.few) in
    c.ok.ensures.value ∙ ap result_ok parsed ∙ sym (ap (λ b. cond b (Some (digits_value 10 text)) None) is)
