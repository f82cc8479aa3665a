use Rattle.std.proofs.Common.{◌≡◌, ◌≤◌, drop, length, map, eqb}
use Rattle.std.specs.Prelude.{is_ok}
use Rattle.std.specs.List.{slice_split}
use Rattle.word_core.specs.Serials.{serials_in, element_serials}
use Rattle.desk_wire.proofs.SerialLists.{rest_good}
use Rattle.desk_wire.proofs.serial_count.lists_serials.Given as goal

-- whether the text is good depends on the elements that are left
abbrev pub invariant-loop-element : goal.invariant-loop-element
invariant-loop-element l = record {
  few : l.count ≤ 1000;
  so_far :
      rest_good l.count (map element_serials (drop (length l.yielded) (slice_split (λ b. eqb b 44) l.text)))
      ≡ is_ok (serials_in l.text);
}
