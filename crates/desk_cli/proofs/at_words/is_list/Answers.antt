use Rattle.std.proofs.Common.{◌≡◌, ◌∙◌, ap, refl}
use Rattle.std.specs.Prelude.{Option, Some, None, is_some, option_map}
use Rattle.desk_cli.proofs.at_words.is_list.Goals as goal

some_kept : {A B : Type 0} (f : A → B) (x : Option A) → is_some x ≡ is_some (option_map f x)
some_kept f None = refl
some_kept f (Some x) = refl

pub returns : goal.returns
returns c = c.is_some.ensures ∙ some_kept _ c.list_called.result ∙ ap is_some c.list_called.ensures
