use Rattle.std.proofs.Common.{sym, ◌∙◌, refl}
use Rattle.indexmap.proofs.CallerLemmas.{insert_entry-new}
use Rattle.sheet_core.specs.declared.slots.Held.{Held}
use Rattle.sheet_core.specs.declared.slots.Held.TheVariants.{Added}
use Rattle.sheet_core.specs.Slots.{now_row, row_before}
use Rattle.sheet_core.proofs.Lookups.{find-lookup}
use Rattle.sheet_core.proofs.Writes.{rows-added, rows-added_none, slots-added}
use Rattle.sheet_core.proofs.slots.add.Goals as goal

pub returns-clause-slots : goal.returns-clause-slots
returns-clause-slots g c =
    let digits = g.R.Key.RowKey.digits in
    let es = c.args.slots.now.entries in
    let h : Held g.row.R.Denot = Added c.args.row in
    let none = sym (find-lookup digits _ g.met.R.Key.RowKey.exact es c.args.key) ∙ c.requires.absent in
    let is = c.in_ok-insert.ensures.entries ∙ insert_entry-new _ c.args.slots.now c.args.key h none in
    rw (is, c.push_within.ensures.items, c.in_ok-reserve.ensures.items, c.len-i.ensures.len)
    (slots-added digits es c.args.key h c.requires.slots.distinct c.requires.absent c.args.changed.now.items
    c.requires.slots.places refl)

pub returns-clause-rows : goal.returns-clause-rows
returns-clause-rows g c =
    let digits = g.R.Key.RowKey.digits in
    let es = c.args.slots.now.entries in
    let h : Held g.row.R.Denot = Added c.args.row in
    let none = sym (find-lookup digits _ g.met.R.Key.RowKey.exact es c.args.key) ∙ c.requires.absent in
    let is = c.in_ok-insert.ensures.entries ∙ insert_entry-new _ c.args.slots.now c.args.key h none in
    rw is (rows-added digits es c.args.key h c.requires.slots.distinct c.requires.absent now_row)

pub returns-clause-before : goal.returns-clause-before
returns-clause-before g c =
    let digits = g.R.Key.RowKey.digits in
    let es = c.args.slots.now.entries in
    let h : Held g.row.R.Denot = Added c.args.row in
    let none = sym (find-lookup digits _ g.met.R.Key.RowKey.exact es c.args.key) ∙ c.requires.absent in
    let is = c.in_ok-insert.ensures.entries ∙ insert_entry-new _ c.args.slots.now c.args.key h none in
    rw is (rows-added_none digits es c.args.key h c.requires.slots.distinct c.requires.absent row_before refl)
