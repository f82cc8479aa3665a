use Rattle.std.proofs.Common.{◌∙◌, ◌++◌, ap, drop, rules}
use Rattle.std.specs.Prelude.{Ok}
use Rattle.desk_http.specs.Answering.{Head, with_status}
use Rattle.desk_http.proofs.Answering.{begun, told_at, unheard}
use Rattle.desk_http.proofs.answer.read_answer.Goals as goal

pub returns-in_err-shown : goal.returns-in_err-shown
returns-in_err-shown c =
    let bytes = c.args.bytes.now in
    let spans = c.parse_response.new.headers in
    let found = c.in-Ok-Complete.found in
    unheard bytes (told_at bytes spans found) (drop found.len bytes) c.in_err-shown.field-0.0 c.from_residual.result
    (begun bytes spans found (rw c.in-Ok-Complete.field-0-is at c.in-Ok-Complete.ensures.complete)
    (rw c.in-Ok-Complete.field-0-is at c.in-Ok-Complete.ensures.within) (search rules))
    c.in_err-shown.ensures c.from_residual.ensures.1

pub returns : goal.returns
returns c =
    let bytes = c.args.bytes.now in
    let spans = c.parse_response.new.headers in
    let found = c.in-Ok-Complete.found in (
      Head (told_at bytes spans found) (drop found.len bytes),
      begun bytes spans found (rw c.in-Ok-Complete.field-0-is at c.in-Ok-Complete.ensures.complete)
          (rw c.in-Ok-Complete.field-0-is at c.in-Ok-Complete.ensures.within) (search rules),
      ap (λ v. Ok (found.code, v))
          (c.in_ok-extend_from_slice.ensures.items
          ∙ ap (λ v. v ++ c.in_ok-shown.shown.now) c.new-body.ensures.items)
          ∙ ap (with_status found.code) c.in_ok-shown.ensures,
    )
