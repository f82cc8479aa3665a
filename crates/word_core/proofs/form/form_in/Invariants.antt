use Rattle.std.proofs.Common.{◌≡◌, drop}
use Rattle.word_core.specs.Forms.{shown_forms, form_named}
use Rattle.word_core.proofs.form.form_in.Given as goal

abbrev pub invariant-loop-form : goal.invariant-loop-form
invariant-loop-form l =
    form_named l.verb (shown_forms (drop l.form-index l.forms)) ≡ form_named l.verb (shown_forms l.forms)
