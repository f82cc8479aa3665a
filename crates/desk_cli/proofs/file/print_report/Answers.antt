use Rattle.std.proofs.Common.{subst, sym}
use Rattle.desk_core.specs.ShopView.{state_of}
use Rattle.desk_store.specs.Exports.{AppendsFront}
use Rattle.report_core.specs.Reports.{report_lines}
use Rattle.report_core.specs.declared.name.ReportName.{ReportName}
use Rattle.desk_wire.specs.Printed.{printed}
use Rattle.desk_cli.proofs.file.print_report.Goals as goal

pub returns-in-History-clause-front : goal.returns-in-History-clause-front
returns-in-History-clause-front g c = λ failed.
    subst (λ (name : ReportName). AppendsFront (g.W.Write.contents c.args.writer.now)
    (g.W.Write.contents c.print_history.new.writer)
    (printed (report_lines name c.args.of (state_of c.args.desk.now.shop))).0)
    (sym c.in-History.is) (c.print_history.ensures.front failed)
