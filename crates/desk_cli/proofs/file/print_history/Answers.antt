use Rattle.std.proofs.Common.{rules, ◌≡◌, ◌∙◌, ◌++◌, ℕ, List, None, Some, ap, subst, sym}
use Rattle.std.specs.Prelude.{Option}
use Rattle.std.specs.Io.KnownBytes.{Appends, Keeps}
use Rattle.desk_core.specs.ShopView.{state_of}
use Rattle.desk_store.specs.Exports.{AppendsFront}
use Rattle.report_core.specs.History.{history_lines}
use Rattle.report_core.specs.Lines.{Lines}
use Rattle.desk_wire.specs.Printed.{printed}
use Rattle.desk_cli.proofs.file.print_history.Goals as goal

-- what is written behind bytes that stayed as they were
kept-then : (a b d : Option (List ℕ)) (t : List ℕ) → Keeps a b → Appends b d t → Appends a d t
kept-then None b d t k p = tt
kept-then (Some xs) None d t k p = absurd k
kept-then (Some xs) (Some ys) None t k p = p
kept-then (Some xs) (Some ys) (Some zs) t k p = p ∙ ap (λ l. l ++ t) k

pub returns-in-Err-NoSuch-clause-front : goal.returns-in-Err-NoSuch-clause-front
returns-in-Err-NoSuch-clause-front g c = λ failed.
    let a = g.W.Write.contents c.args.writer.now in
    let b = g.W.Write.contents c.history.new.writer in
    let d = g.W.Write.contents c.print_no_such.new.writer in
    let none : history_lines c.args.item (state_of c.args.desk.now.shop) ≡ None = search rules in
    let kept : Keeps a b = search rules in
    let told = c.print_no_such.ensures.front failed in
    subst (λ (lines : Option Lines). AppendsFront a d (printed lines).0) (sym none)
    (told.0, told.1, kept-then a b d _ kept told.2)
