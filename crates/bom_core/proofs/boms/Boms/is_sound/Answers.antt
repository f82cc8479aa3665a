use Rattle.sheet_core.proofs.SlotLemmas.{IfOk-map}
use Rattle.bom_core.proofs.boms.Boms.is_sound.Goals as goal

pub returns : goal.returns
returns c =
    IfOk-map c.is_acyclic.result c.is_acyclic.ensures (λ answer acyclic. (
      λ t. record {
        catalogue = c.is_sound.ensures.0 c.if-not-is_sound.false;
        line_rows = c.are_lines_drawn.ensures.0 c.if-not-are_lines_drawn.false;
        substitute_rows = c.are_substitutes_drawn.ensures.0 c.if-not-are_substitutes_drawn.false;
        quantities = c.have_quantities.ensures.0 c.if-not-have_quantities.false;
        assemblies = c.have_assemblies.ensures.0 c.if-not-have_assemblies.false;
        components = c.have_components.ensures.0 c.if-not-have_components.false;
        lines = c.have_lines.ensures.0 c.if-not-have_lines.false;
        substitutes = c.have_parts.ensures.0 c.if-not-have_parts.false;
        acyclic = acyclic.0 t;
        once = c.in_ok-once.ensures.0 c.if-not-once.false;
        needed = c.are_needed.ensures.0 c.if-not-are_needed.false;
      },
      λ sound. acyclic.1 sound.acyclic,
    ))
