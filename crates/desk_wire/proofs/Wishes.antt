-- An object that is a request has `do`, so it asks for no report.
use Rattle.std.proofs.Common.{◌≡◌, Bool, false, ◌&&◌, refl, Option, Some, None, Ok}
use Rattle.std.specs.Prelude.{Result, is_none, is_some, codes}
use Rattle.serde_json.specs.Data.{Data}
use Rattle.serde_json.specs.Find.{get}
use Rattle.desk_core.specs.Naming.{Naming}
use Rattle.desk_core.specs.declared.command.Request.{Request}
use Rattle.desk_wire.specs.declared.fault.What.{What}
use Rattle.desk_wire.specs.declared.fault.What.TheVariants.{NoField}
use Rattle.desk_wire.specs.declared.read.Wish.TheVariants as wish
use Rattle.desk_wire.specs.Reading.{is_report, request_of, wish_of}
use Rattle.desk_wire.specs.Steps.{◌>>=◌, or_fault}

has_do : {A B : Type 0} (verb : Option Data) (f : Data → Result A What) (g : A → Result B What) (r : B) (b : Bool)
    → ((or_fault NoField verb >>= f) >>= g) ≡ Ok r → (is_none verb && b) ≡ false
has_do None f g r b e = cc
has_do (Some value) f g r b e = refl

no_report : (names : Option Naming) (d : Data) (r : Request) → request_of names d ≡ Ok r → is_report d ≡ false
no_report names d r e = has_do (get (codes "do") d) _ _ r (is_some (get (codes "report") d)) e

pub requests_are_wishes : (names : Option Naming) (d : Data) (r : Request) → request_of names d ≡ Ok r → wish_of names d ≡ Ok (wish.Request r)
requests_are_wishes names d r e = rw (no_report names d r e, e) refl
