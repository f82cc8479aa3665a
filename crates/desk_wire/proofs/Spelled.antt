-- A report has no float, so its text is known.
use Rattle.std.proofs.Common.{◌≡◌, ℕ, List, [], ◌∷◌, map, false, refl}
use Rattle.serde_json.specs.Data.{string}
use Rattle.serde_json.specs.View.{items_of}
use Rattle.serde_json.specs.Written.{has_float, items_have_float}
use Rattle.report_core.specs.Lines.{Lines, line_data, report_data}

strings_float : (ts : List (List ℕ)) → items_have_float (items_of (map string ts)) ≡ false
strings_float [] = refl
strings_float (t ∷ ts) = strings_float ts

of_lines : (ls : Lines) → items_have_float (items_of (map line_data ls)) ≡ false
of_lines [] = refl
of_lines (l ∷ ls) = rw (strings_float l, of_lines ls) refl

pub no_float : (ls : Lines) → has_float (report_data ls) ≡ false
no_float ls = of_lines ls
