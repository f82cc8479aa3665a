use Rattle.std.proofs.Common.{◌≡◌, drop}
use Rattle.serde_json.specs.View.{items_view}
use Rattle.word_core.specs.Flags.{no_flags}
use Rattle.desk_wire.specs.Fields.{with_words}
use Rattle.desk_wire.proofs.fields.with_words.Given as goal

abbrev pub invariant-loop-value : goal.invariant-loop-value
invariant-loop-value l =
    with_words no_flags (items_view l.values) ≡ with_words l.flags (items_view (drop l.value-index l.values))
