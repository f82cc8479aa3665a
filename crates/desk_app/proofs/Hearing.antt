-- What is printed of what a service answers, over plain variables.
use Rattle.std.proofs.Common.{◌≡◌, ◌+◌, ◌<◌, ◌≤◌, ◌∙◌, ℕ, Bool, true, List, [], ◌∷◌, ◌++◌}
use Rattle.std.proofs.Common.{length, drop, drop-drop, length-drop, append_assoc, append-nil, arith, ap, sym, refl}
use Rattle.std.specs.Prelude.{◌&&◌}
use Rattle.std.proofs.lemmas.List.{drop_all}
use Rattle.desk_app.specs.Cuts.{first_of, rest_of}
use Rattle.desk_app.specs.Heard.{are_fine, is_fine, moved, moved_lines}
use Rattle.desk_app.specs.Runs.{lines_of}
use Rattle.desk_app.proofs.Checking.{behind_first}
use Rattle.desk_app.proofs.Running.{and_assoc, and_true, lines_first}

-- so many bytes were shown, and where the others begin
pub record Told (before : ℕ) (bytes : List ℕ) (at : ℕ) (out : List ℕ) (f : Bool) : Type 0 where
  pub text : moved_lines before (lines_of bytes) ≡ out ++ moved_lines before (lines_of (drop at bytes))
  pub fine : are_fine (lines_of bytes) ≡ (f && are_fine (lines_of (drop at bytes)))

pub told_none : (before : ℕ) (bytes out : List ℕ) → out ≡ [] → Told before bytes 0 out true
told_none before bytes out e = record {
  text = ap (λ v. v ++ moved_lines before (lines_of bytes)) (sym e);
  fine = refl;
}

pub told_one : (before : ℕ) (bytes : List ℕ) (at at' : ℕ) (out out' : List ℕ) (f f' fine : Bool) (rest l : List ℕ)
    → Told before bytes at out f → at < length bytes → rest ≡ drop at bytes → l ≡ first_of rest
    → at' ≡ at + (length l + 1) → out' ≡ out ++ moved before l ++ 10 ∷ [] → fine ≡ is_fine l → f' ≡ (f && fine)
    → Told before bytes at' out' f'
told_one before bytes at at' out out' f f' fine rest l p inside is_rest is_first there is_out is_fine_l both =
    let here : first_of (drop at bytes) ≡ l = sym (is_first ∙ ap first_of is_rest) in
    let some : 0 < length (drop at bytes) = omega (arith, length-drop at bytes) in
    let behind : rest_of (drop at bytes) ≡ drop at' bytes =
    sym (behind_first (drop at bytes))
    ∙ ap (λ (v : List ℕ). drop (length v + 1) (drop at bytes)) here
    ∙ drop-drop (length l + 1) at bytes
    ∙ ap (λ n. drop n bytes) (sym there) in
    let others = lines_of (drop at' bytes) in
    record {
      text =
          p.text
          ∙ ap (λ v. out ++ moved_lines before v) (lines_first (drop at bytes) some)
          ∙ ap (λ v. out ++ (moved before v ++ 10 ∷ moved_lines before (lines_of (rest_of (drop at bytes))))) here
          ∙ ap (λ v. out ++ (moved before l ++ 10 ∷ moved_lines before (lines_of v))) behind
          ∙ sym (append_assoc out (moved before l) (10 ∷ moved_lines before others))
          ∙ sym (append_assoc (out ++ moved before l) (10 ∷ []) (moved_lines before others))
          ∙ ap (λ v. v ++ moved_lines before others) (sym is_out);
      fine =
          p.fine
          ∙ ap (λ v. f && are_fine v) (lines_first (drop at bytes) some)
          ∙ ap (λ v. f && (is_fine v && are_fine (lines_of (rest_of (drop at bytes))))) here
          ∙ ap (λ v. f && (is_fine l && are_fine (lines_of v))) behind
          ∙ sym (and_assoc f (is_fine l) (are_fine others))
          ∙ ap (λ v. (f && v) && are_fine others) (sym is_fine_l)
          ∙ ap (λ v. v && are_fine others) (sym both);
    }

pub all_text : (before : ℕ) (bytes : List ℕ) (at : ℕ) (out : List ℕ) (f : Bool) → Told before bytes at out f
    → length bytes ≤ at → out ≡ moved_lines before (lines_of bytes)
all_text before bytes at out f p past =
    sym (p.text
    ∙ ap (λ (v : List ℕ). out ++ moved_lines before (lines_of v)) (drop_all at bytes past)
    ∙ append-nil out)

pub all_fine : (before : ℕ) (bytes : List ℕ) (at : ℕ) (out : List ℕ) (f : Bool) → Told before bytes at out f
    → length bytes ≤ at → f ≡ are_fine (lines_of bytes)
all_fine before bytes at out f p past =
    sym (p.fine
    ∙ ap (λ (v : List ℕ). f && are_fine (lines_of v)) (drop_all at bytes past)
    ∙ and_true f)
