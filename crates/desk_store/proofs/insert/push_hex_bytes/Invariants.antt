use Rattle.std.proofs.Common.{◌≡◌, ◌++◌, drop}
use Rattle.desk_store.specs.Dumps.{hex_bytes}
use Rattle.desk_store.proofs.insert.push_hex_bytes.Given as goal

-- the bytes so far and those that are left
abbrev pub invariant-loop-byte : goal.invariant-loop-byte
invariant-loop-byte l =
    l.line.items ++ hex_bytes (drop l.byte-index l.text) ≡ l.initial.line.items ++ hex_bytes l.text
