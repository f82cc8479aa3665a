use Rattle.std.proofs.Common.{ap, codes, refl, true, ◌≡◌, ◌∙◌}
use Rattle.std.proofs.lemmas.Result.{IfOk-weaker}
use Rattle.clap.specs.Words.{App, app_of, new_app, with_subcommand}
use Rattle.clap.specs.Simple.{app_of_fields, on_top}
use Rattle.desk_cli.specs.Words.{Places, top_line, run_line, report_line, export_line, dump_line, migrate_line}
use Rattle.desk_cli.specs.Words.{help_line, import_line, lines_line, serve_line, show_line, stop_line}
use Rattle.desk_cli.proofs.CommandLines.{line_added}
use Rattle.desk_cli.proofs.words.command.Goals as goal

pub returns : goal.returns
returns c =
    let report = c.in_ok-report_command.ensures in
    let export = c.in_ok-export_command.ensures in
    let show = c.in_ok-show_command.ensures in
    let import = c.in_ok-import_command.ensures in
    let lines = c.in_ok-lines_command.ensures in
    let help = c.in_ok-help_command.ensures in
    let places : Places =
    record {
      reports = report.0;
      tables = export.0;
      lists = show.0;
      kinds = import.0;
      line_kinds = lines.0;
      topics = help.0;
    } in
    let quiet_is : app_of c.disable_help_subcommand.result
    ≡ on_top (λ shape. record shape { disable_help_subcommand = true }) (new_app (codes "invdesk")) =
    ap app_of_fields c.disable_help_subcommand.ensures
    ∙ ap (on_top (λ shape. record shape { disable_help_subcommand = true }))
    (ap app_of_fields c.about.ensures ∙ c.new.ensures.app) in
    let top_is : app_of c.version.result ≡ top_line = ap app_of_fields c.version.ensures
    ∙ ap (on_top (λ shape. record shape { has_version = true })) quiet_is in
    let run : App = with_subcommand top_line run_line.top in
    let with_report : App = with_subcommand run (report_line report.0).top in
    let with_export : App = with_subcommand with_report (export_line export.0).top in
    let with_dump : App = with_subcommand with_export dump_line.top in
    let with_show : App = with_subcommand with_dump (show_line show.0).top in
    let with_migrate : App = with_subcommand with_show migrate_line.top in
    let with_import : App = with_subcommand with_migrate (import_line import.0).top in
    let with_lines : App = with_subcommand with_import (lines_line lines.0).top in
    let with_serve : App = with_subcommand with_lines serve_line.top in
    let with_stop : App = with_subcommand with_serve stop_line.top in
    let one =
    line_added c.version.result c.in_ok-run_command.field-0 c.in_ok-subcommand.field-0 top_line run_line
    c.in_ok-subcommand.ensures refl top_is c.in_ok-run_command.ensures in
    let two =
    line_added c.in_ok-subcommand.field-0 c.in_ok-report_command.field-0 c.in_ok-subcommand-2.field-0 run
    (report_line report.0) c.in_ok-subcommand-2.ensures refl one report.1 in
    let three =
    line_added c.in_ok-subcommand-2.field-0 c.in_ok-export_command.field-0 c.in_ok-subcommand-3.field-0 with_report
    (export_line export.0) c.in_ok-subcommand-3.ensures refl two export.1 in
    let four =
    line_added c.in_ok-subcommand-3.field-0 c.in_ok-dump_command.field-0 c.in_ok-subcommand-4.field-0 with_export
    dump_line c.in_ok-subcommand-4.ensures refl three c.in_ok-dump_command.ensures in
    let five =
    line_added c.in_ok-subcommand-4.field-0 c.in_ok-show_command.field-0 c.in_ok-subcommand-5.field-0 with_dump
    (show_line show.0) c.in_ok-subcommand-5.ensures refl four show.1 in
    let six =
    line_added c.in_ok-subcommand-5.field-0 c.in_ok-migrate_command.field-0 c.in_ok-subcommand-6.field-0 with_show
    migrate_line c.in_ok-subcommand-6.ensures refl five c.in_ok-migrate_command.ensures in
    let seven =
    line_added c.in_ok-subcommand-6.field-0 c.in_ok-import_command.field-0 c.in_ok-subcommand-7.field-0 with_migrate
    (import_line import.0) c.in_ok-subcommand-7.ensures refl six import.1 in
    let eight =
    line_added c.in_ok-subcommand-7.field-0 c.in_ok-lines_command.field-0 c.in_ok-subcommand-8.field-0 with_import
    (lines_line lines.0) c.in_ok-subcommand-8.ensures refl seven lines.1 in
    let nine =
    line_added c.in_ok-subcommand-8.field-0 c.in_ok-serve_command.field-0 c.in_ok-subcommand-9.field-0 with_lines
    serve_line c.in_ok-subcommand-9.ensures refl eight c.in_ok-serve_command.ensures in
    let ten =
    line_added c.in_ok-subcommand-9.field-0 c.in_ok-stop_command.field-0 c.in_ok-subcommand-10.field-0 with_serve
    stop_line c.in_ok-subcommand-10.ensures refl nine c.in_ok-stop_command.ensures in
    IfOk-weaker c.subcommand-11.result _ _ (λ r added. (
      places,
      line_added c.in_ok-subcommand-10.field-0 c.in_ok-help_command.field-0 r with_stop (help_line help.0) added refl
          ten help.1,
    )) c.subcommand-11.ensures
