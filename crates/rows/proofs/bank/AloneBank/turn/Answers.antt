use Rattle.rows.proofs.bank.AloneBank.turn.Goals as goal

pub returns-clause-value : goal.returns-clause-value
returns-clause-value g c = c.turn.ensures.value

pub returns-clause-after : goal.returns-clause-after
returns-clause-after g c = c.turn.ensures.after
