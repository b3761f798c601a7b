-- What functions ask of atom counts that were checked. No public promise cites this file.
use Rattle.std.specs.Prelude.{◌≤◌}
use Rattle.elements.specs.declared.Element.{Element}
use Rattle.elements.specs.declared.Atoms.{Atoms}
use Rattle.elements.specs.Elements.{count}

-- no count above 200
pub record AtMost200 (a : Atoms) : Type 0 where
  pub most : (e : Element) → count a e ≤ 200
