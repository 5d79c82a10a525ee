-- The verdicts of the code as definitions have them: with names as bytes.
use Rattle.fz_filling.specs.Verdict as plain
use Rattle.fz_filling.specs.declared.verdict.Fault.{Fault}
use Rattle.fz_filling.specs.declared.verdict.Fault.TheVariants as faults
use Rattle.fz_filling.specs.declared.verdict.Reason.{Reason}
use Rattle.fz_filling.specs.declared.verdict.Reason.TheVariants as reasons
use Rattle.fz_filling.specs.declared.verdict.Verdict.{Verdict}
use Rattle.fz_filling.specs.declared.verdict.Verdict.TheVariants as verdicts

abbrev pub fault_view : Fault → plain.Fault
fault_view (faults.Printed name) = plain.Fault.PrintedFault name.now
fault_view (faults.Domain name) = plain.Fault.DomainFault name.now
fault_view (faults.Definition name) = plain.Fault.DefinitionFault name.now
fault_view (faults.Constraint k name) = plain.Fault.ConstraintFault k name.now
fault_view (faults.NotBetter now before) = plain.Fault.NotBetter now before

abbrev pub reason_view : Reason → plain.Reason
reason_view (reasons.NoValue name) = plain.Reason.NoValueFor name.now
reason_view (reasons.Unknown k name) = plain.Reason.NotKnown k name.now
reason_view (reasons.TooLarge k) = plain.Reason.SumTooLarge k
reason_view (reasons.NotShownBetter now found) = plain.Reason.NotShownBetter now found

abbrev pub verdict_view : Verdict → plain.Verdict
verdict_view verdicts.Satisfied = plain.Verdict.Satisfied
verdict_view (verdicts.Violated f) = plain.Verdict.Violated (fault_view f)
verdict_view (verdicts.Undecided r) = plain.Verdict.Undecided (reason_view r)
