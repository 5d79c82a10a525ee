use Rattle.fz_search.proofs.enclosing.enclose.Goals as goal

pub returns-clause-around : goal.returns-clause-around
returns-clause-around c = λ A sought around.
    c.enclose.ensures.around A sought.0 (λ a there. c.asked_numbers-numbers.ensures A a sought there) around
