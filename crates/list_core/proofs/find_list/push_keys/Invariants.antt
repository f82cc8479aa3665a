use Rattle.std.proofs.Common.{◌≡◌, ◌++◌, drop, filter, map}
use Rattle.list_core.specs.FindList.{found_key, is_in}
use Rattle.report_core.specs.Lines.{lines_of}
use Rattle.list_core.proofs.find_list.push_keys.Given as goal

-- the lines so far and those of what is left are all lines
abbrev pub invariant-loop-kept : goal.invariant-loop-kept
invariant-loop-kept l =
    lines_of l.lines.items
    ++ map found_key (filter (λ k. is_in l.word k.word) (map (λ x. x.now) (drop l.kept-index l.kept-items)))
    ≡ lines_of l.initial.lines.items ++ map found_key (filter (λ k. is_in l.word k.word) (map (λ x. x.now) l.kept-items))
