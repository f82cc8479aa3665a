use Rattle.std.proofs.Common.{◌≡◌, ◌∙◌, ap, subst, rules, string_bytes}
use Rattle.std.specs.Option.{IfSome}
use Rattle.desk_core.specs.Key.{is_key}
use Rattle.desk_wire.specs.Kinds.{import_kind_name}
use Rattle.desk_wire.proofs.Keys.{slashed, key_decimal, key_fits}
use Rattle.desk_wire.proofs.row.row_key.Goals as goal

pub unwrap-requires : goal.unwrap-requires
unwrap-requires c =
    let built : string_bytes c.push_str-4.new.self
    ≡ slashed (import_kind_name c.args.kind) c.args.document.now c.args.number.now = search rules in
    c.new.ensures.fits.1
    (ap is_key built ∙ key_fits c.args.kind c.args.document.now c.args.number.now c.as_str.ensures.fits c.requires)

pub returns : goal.returns
returns c =
    let built : string_bytes c.push_str-4.new.self
    ≡ slashed (import_kind_name c.args.kind) c.args.document.now c.args.number.now = search rules in
    subst (λ o. IfSome o (λ key. key ≡ string_bytes c.push_str-4.new.self)) c.unwrap.ensures c.new.ensures.value ∙ built
    ∙ key_decimal c.args.kind c.args.document.now c.args.number.now c.requires
