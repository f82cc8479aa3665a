use Rattle.desk_core.specs.CommandText.{command_text}
use Rattle.desk_core.specs.ShopView.{state_of}
use Rattle.desk_core.proofs.Steps.{kept-sound}
use Rattle.desk_core.proofs.shop.Shop.act_once.Goals as goal

pub returns-in-Ok-clause-sound : goal.returns-in-Ok-clause-sound
returns-in-Ok-clause-sound c =
    kept-sound (state_of c.args.self.now) (state_of c.act.new.self) (state_of c.keep_answer.new.self) c.requires.sound
    c.args.request.now.day c.args.request.now.command
    c.in_ok-answer.answer c.in_ok-answer.ensures.acts c.args.key.now c.text.ensures.fits
    (command_text c.args.request.now.command)
    c.in-Ok.ensures.ok
