-- The declared domain that a point is about (this project's profile).
use Rattle.std.specs.Prelude.{Option, Some, None}
use Rattle.fz_filling.specs.of_model.Meaning.{Point}
use Rattle.fz_filling.specs.of_model.Meaning.Point.{DomainPoint, DefinitionPoint, ArrayPoint, ConstraintPoint}
use Rattle.fz_filling.specs.of_model.declared.Domain.{Domain}

abbrev pub domain_of : Point → Option Domain
domain_of (DomainPoint x n) = Some x.domain
domain_of (ArrayPoint x d ts) = Some d
domain_of (DefinitionPoint x n e) = None
domain_of (ConstraintPoint k c) = None
