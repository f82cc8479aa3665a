use Rattle.std.proofs.Common.{◌≡◌, drop, length, eqb}
use Rattle.std.specs.List.{slice_split}
use Rattle.desk_http.specs.Targets.{query_of, words_said}
use Rattle.desk_http.proofs.query.read_query.Given as goal

-- what is said in all is what the words that are left add to what is said so far
abbrev pub invariant-loop-word : goal.invariant-loop-word
invariant-loop-word l =
    words_said l.said (drop (length l.yielded) (slice_split (λ b. eqb b 38) l.text)) ≡ query_of l.text
