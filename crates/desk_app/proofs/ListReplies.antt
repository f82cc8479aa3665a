-- The lines of a list that is asked for.
use Rattle.std.proofs.Common.{◌≡◌, ◌∙◌, ap}
use Rattle.std.specs.Prelude.{Ok, Err}
use Rattle.desk_core.specs.Machine.{State}
use Rattle.list_core.specs.Listings.{listing_lines}
use Rattle.list_core.specs.declared.listing.Listing.{Listing}
use Rattle.desk_wire.specs.declared.fault.What.{What}
use Rattle.list_words.specs.Lists.{lines_by, lines_of, listed_of, listing_by}
use Rattle.list_words.specs.declared.list_of.ListOf.{ListOf}
use Rattle.list_words.proofs.WordedLists.{same_lines}

pub found : (asked : ListOf) (s : State) (listing : Listing) → listing_by asked s ≡ Ok listing
    → lines_by (listed_of asked) s ≡ Ok (listing_lines listing s)
found asked s listing e = same_lines asked s ∙ ap (λ l. lines_of l s) e

pub unfound : (asked : ListOf) (s : State) (what : What) → listing_by asked s ≡ Err what
    → lines_by (listed_of asked) s ≡ Err what
unfound asked s what e = same_lines asked s ∙ ap (λ l. lines_of l s) e
