use Rattle.std.proofs.Common.{rules, not}
use Rattle.part_core.specs.CatalogueView.{parts_of}
use Rattle.part_core.proofs.RowTests.{each-tested}
use Rattle.yard_core.specs.YardView.{stock_of}
use Rattle.build_core.specs.BuildsView.{builds_now}
use Rattle.build_core.specs.RowTests.{is_sound_build}
use Rattle.build_core.proofs.Opened.{sound_build-is}
use Rattle.build_core.proofs.builds.Builds.are_sound_rows.Goals as goal

pub returns : goal.returns
returns c =
    let parts = parts_of c.args.catalogue.now in
    let s = stock_of c.args.yard.now in
    each-tested (is_sound_build parts s) _ (builds_now c.args.self.now) (sound_build-is parts s) c.any.result
    (rw c.rows.ensures.value at (c.any.ensures (λ x. not (is_sound_build parts s x)) (search rules)))
