use Rattle.std.proofs.Common.{◌||◌, not, rules}
use Rattle.sheet_core.proofs.SlotLemmas.{IfOk-map}
use Rattle.build_core.specs.Builds.{is_open}
use Rattle.list_core.proofs.build_list.listed_builds.Goals as goal

pub returns : goal.returns
returns c =
    IfOk-map c.select.result c.select.ensures
    (λ rows e. e (λ b. not c.args.only_open || is_open b.state) (search rules))
