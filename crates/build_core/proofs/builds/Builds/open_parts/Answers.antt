use Rattle.std.proofs.Common.{◌≡◌, ◌∙◌, sym, ap, IfOk, map, Ok, Err}
use Rattle.std.proofs.lemmas.Simd.{map-map}
use Rattle.build_core.specs.Builds.{open_parts}
use Rattle.build_core.specs.BuildsView.{builds_now}
use Rattle.build_core.specs.declared.build.Build.{Build}
use Rattle.build_core.proofs.builds.Builds.open_parts.Goals as goal

pub returns : goal.returns
returns c =
    let rows = c.as_slice.result.now in
    let part = map (λ (x : Build). x.part) in
    elim c.parts_of.result as (λ r. IfOk r (λ parts. parts.items ≡ map (λ x. x.now.part) rows)
    → IfOk r (λ parts. parts.items ≡ open_parts (builds_now c.args.self.now))) [
      | Ok parts ↦ λ h.
          h ∙ sym (map-map (λ (x : Build). x.part) (λ r. r.now) rows)
          ∙ ap part (ap (map (λ r. r.now)) c.as_slice.ensures.value ∙ c.in_ok-rows.ensures)
      | Err e ↦ λ h. tt
    ] c.parts_of.ensures
