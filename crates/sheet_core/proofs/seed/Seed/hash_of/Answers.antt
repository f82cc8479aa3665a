use Rattle.std.proofs.Common.{ap, sym, ◌∙◌}
use Rattle.std.specs.Prelude.{fold}
use Rattle.std.specs.Hash.DefaultHasher as sip
use Rattle.sheet_core.proofs.IndexKeys.{fed-told}
use Rattle.sheet_core.proofs.seed.Seed.hash_of.Goals as goal

pub returns : goal.returns
returns g c =
    c.hash_one.ensures ∙ ap (λ fed. sip.finish (fold sip.write c.args.self.now.begun fed)) (sym (fed-told _))
