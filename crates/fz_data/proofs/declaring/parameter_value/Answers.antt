use Rattle.fz_data.proofs.declaring.parameter_value.Goals as goal

pub returns-in-Some-clause-clean : goal.returns-in-Some-clause-clean
returns-in-Some-clause-clean c = rw c.in-Some.is c.expression_value.ensures.clean

pub returns-in-Some-clause-tells : goal.returns-in-Some-clause-tells
returns-in-Some-clause-tells c = rw c.in-Some.is c.expression_value.ensures.tells
