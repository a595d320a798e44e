use Rattle.mp_core.proofs.event_line.event_by.Goals as goal

pub returns-in-All-clause-fits : goal.returns-in-All-clause-fits
returns-in-All-clause-fits c = c.all_of.ensures.fits c.args.processors (rw c.from.ensures at c.number_below-by.ensures.fits)

pub returns-in-This-clause-fits : goal.returns-in-This-clause-fits
returns-in-This-clause-fits c = c.this_of.ensures.fits c.args.processors (rw c.from.ensures at c.number_below-by.ensures.fits)
