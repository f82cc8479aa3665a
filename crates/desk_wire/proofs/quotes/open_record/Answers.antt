use Rattle.std.proofs.Common.{◌≡◌, ◌∙◌, [], drop, length, refl, sym, ap, arith}
use Rattle.std.specs.Prelude.{Some}
use Rattle.std.proofs.lemmas.List.{drop_all}
use Rattle.csv.specs.Reading.{strip_bom}
use Rattle.csv.specs.declared.parser.State.TheVariants as st
use Rattle.desk_wire.specs.Records.{config_by}
use Rattle.desk_wire.proofs.OpenQuotes.{ends-quoted, ends-unquoted, open-is, open_at}
use Rattle.desk_wire.proofs.quotes.open_record.Goals as goal

pub loop-index-init : goal.loop-index-init
loop-index-init c = record {
  state = st.StartRecord;
  place = refl;
  few = omega arith;
  so_far = refl;
}

pub returns-in-Quoted : goal.returns-in-Quoted
returns-in-Quoted c =
    let config = config_by c.args.separator in
    let text = strip_bom c.args.bytes.now in
    let all = c.loop-index.invariant in
    let end : drop c.loop-index.index text ≡ [] =
    drop_all c.loop-index.index text (omega (arith, ap length c.without_mark-byte-items.ensures)) in
    sym
    (open-is config text ∙ all.so_far ∙ ap (open_at config all.state c.loop-index.ended) end
    ∙ ends-quoted config all.state c.loop-index.ended (all.place ∙ ap Some c.in-Quoted.is))

pub returns-in_default : goal.returns-in_default
returns-in_default c =
    let config = config_by c.args.separator in
    let text = strip_bom c.args.bytes.now in
    let all = c.loop-index.invariant in
    let end : drop c.loop-index.index text ≡ [] =
    drop_all c.loop-index.index text (omega (arith, ap length c.without_mark-byte-items.ensures)) in
    sym
    (open-is config text ∙ all.so_far ∙ ap (open_at config all.state c.loop-index.ended) end
    ∙ ends-unquoted config all.state c.loop-index.ended c.loop-index.place all.place c.in_default.not-Quoted)
