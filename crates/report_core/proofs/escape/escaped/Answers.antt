use Rattle.std.proofs.Common.{◌++◌, drop, length, ap, sym, ◌∙◌, arith, append-nil, string_bytes}
use Rattle.std.specs.Str.{chars}
use Rattle.std.proofs.lemmas.List.{at_drop_all, length_push}
use Rattle.std.proofs.lemmas.Iterator.{YieldsList-from_chars}
use Rattle.std.proofs.lemmas.Iterator.Consumers.{YieldsList-turn, YieldsList-end}
use Rattle.report_core.specs.Escaped.{escaped_chars}
use Rattle.report_core.proofs.Escaping.{nothing_escaped, one_escaped}
use Rattle.report_core.proofs.escape.escaped.Goals as goal

pub loop-c-init : goal.loop-c-init
loop-c-init c = nothing_escaped c.args.text.now (string_bytes c.new-line.result) (cc)

pub loop-c-preserved : goal.loop-c-preserved
loop-c-preserved c =
    let turn =
    YieldsList-turn (YieldsList-from_chars c.args.text.now c.utf8.text cc) c.loop-c.yielded _ c.loop-c.yielded_by _ _
    c.in-Some.c c.in-Some.is c.next.ensures.steps in
    ap (λ k. string_bytes c.push_escaped.new.line ++ escaped_chars (drop k (chars c.args.text.now)))
    (length_push c.loop-c.yielded c.in-Some.c)
    ∙ one_escaped (chars c.args.text.now) (string_bytes c.loop-c.line) (string_bytes c.push_escaped.new.line)
    (length c.loop-c.yielded) c.in-Some.c _ turn c.in_ok-push_escaped.ensures c.loop-c.invariant

pub returns : goal.returns
returns c =
    let end =
    YieldsList-end (YieldsList-from_chars c.args.text.now c.utf8.text cc) c.loop-c.yielded _ c.loop-c.yielded_by _ _
    c.in-None.is c.next.ensures.steps in
    sym (append-nil (string_bytes c.loop-c.line))
    ∙ sym (at_drop_all (λ rest. string_bytes c.loop-c.line ++ escaped_chars rest) (chars c.args.text.now)
    (length c.loop-c.yielded) (omega (arith, end.1)))
    ∙ c.loop-c.invariant
