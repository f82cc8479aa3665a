-- What untracked lines of a build lack is taken from what is free, in order.
use Rattle.std.specs.Prelude.{ℕ, not, Bool, List, [], ◌∷◌, ◌++◌}
use Rattle.part_core.specs.Catalogue.{Parts}
use Rattle.word_core.specs.Checks.{Check}
use Rattle.word_core.specs.Counter.{passes_limit}
use Rattle.word_core.specs.declared.refusal.Refusal.TheVariants.{NoSuch, WrongState, Full}
use Rattle.bom_core.specs.Bills.{Bills}
use Rattle.alloc_core.specs.Allotting.{allot_lines}
use Rattle.build_core.specs.AllocateBuild.{allotments_in, with_allotments}
use Rattle.build_core.specs.Builds.{BuildBooks, build_at, is_no_build, may_prepare}
use Rattle.build_core.specs.Needs.{needs}

-- each line in order is served from what the lines before it left free
abbrev pub auto_allocate : ℕ → Bool → Bool → Parts → Bills → BuildBooks → BuildBooks
auto_allocate n with_substitutes with_optional parts bills b =
    with_allotments b
    (allot_lines with_substitutes parts bills b.books.stock n (needs with_optional parts bills (build_at n b) b)
    (allotments_in b))

-- why it is refused whatever the limits are, in the order of checks
abbrev pub auto_allocate_asks : ℕ → BuildBooks → List Check
auto_allocate_asks n b = (is_no_build n b, NoSuch) ∷ (not (may_prepare (build_at n b).state), WrongState) ∷ []

-- why it is refused
abbrev pub auto_allocate_checks : ℕ → Bool → Bool → Parts → Bills → BuildBooks → List Check
auto_allocate_checks n with_substitutes with_optional parts bills b =
    auto_allocate_asks n b
    ++ (passes_limit (auto_allocate n with_substitutes with_optional parts bills b).books.counter, Full) ∷ []
