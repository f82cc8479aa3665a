use Rattle.std.proofs.Common.{◌≡◌, drop, map, cond}
use Rattle.word_core.specs.Forms.{shown}
use Rattle.desk_wire.specs.Sheets.{Said, always, headed}
use Rattle.desk_wire.specs.SheetViews.{shown_sayings}
use Rattle.desk_cli.specs.SheetWords.{with_sayings}
use Rattle.desk_cli.proofs.sheet_words.add_sayings.Given as goal

abbrev pub invariant-loop-word : goal.invariant-loop-word
invariant-loop-word l =
    with_sayings (shown l.form) (λ text. cond l.is_text (always text) (headed text))
    (shown_sayings l.initial.said.items) (map (λ w. w.now) l.words)
    ≡ with_sayings (shown l.form) (λ text. cond l.is_text (always text) (headed text))
    (shown_sayings l.said.items) (map (λ w. w.now) (drop l.word-index l.words))
