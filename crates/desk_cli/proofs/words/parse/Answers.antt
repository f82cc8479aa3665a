use Rattle.std.proofs.Common.{map}
use Rattle.clap.specs.Words.{app_of}
use Rattle.desk_cli.proofs.Parsed.{failed, free_line, parsed, refused}
use Rattle.desk_cli.proofs.words.parse.Goals as goal

pub returns-in_err-command : goal.returns-in_err-command
returns-in_err-command g c =
    refused (map g.S.AsStr.text c.args.words.now) c.from_residual.result c.from_residual.ensures.1

pub returns-in_err-matches : goal.returns-in_err-matches
returns-in_err-matches g c =
    let app = app_of c.in_ok-command.field-0 in
    failed (map g.S.AsStr.text c.args.words.now) app c.in_ok-command.ensures c.from_residual-in_err-matches.result
    c.in_err-matches.field-0.0 c.from_residual-in_err-matches.ensures.1
    (c.in_err-matches.ensures.kinds (free_line app c.in_ok-command.ensures))

pub returns : goal.returns
returns g c =
    let app = app_of c.in_ok-command.field-0 in
    parsed (map g.S.AsStr.text c.args.words.now) app c.in_ok-command.ensures c.in_ok-matches.matches
    (c.in_ok-matches.ensures.kinds (free_line app c.in_ok-command.ensures)) c.in_ok-matches.ensures.matches
