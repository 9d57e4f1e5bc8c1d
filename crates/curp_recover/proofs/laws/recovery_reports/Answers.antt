use Rattle.curp_recover.proofs.Reports as lemma
use Rattle.curp_recover.proofs.Silent as silent
use Rattle.curp_recover.proofs.laws.recovery_reports.Goals as goal

pub returns-clause-asks : goal.returns-clause-asks
returns-clause-asks c = λ n o. lemma.asks n o

pub returns-clause-stores : goal.returns-clause-stores
returns-clause-stores c = λ n o epoch entries requests log. lemma.stores n o epoch entries requests log

pub returns-clause-either : goal.returns-clause-either
returns-clause-either c = λ n o epoch entries requests log. lemma.either n o epoch entries requests log

pub returns-clause-waits : goal.returns-clause-waits
returns-clause-waits c = λ n o epoch entries requests answers next log whole some. lemma.waits n o epoch entries requests log answers next whole some

pub returns-clause-reports : goal.returns-clause-reports
returns-clause-reports c = λ n o epoch entries requests answers last log whole some all. lemma.reports n o epoch entries requests log answers last whole some all

pub returns-clause-at_last : goal.returns-clause-at_last
returns-clause-at_last c = λ n s r given stores last. silent.at_last n s r stores given last

pub returns-clause-at_nothing_else : goal.returns-clause-at_nothing_else
returns-clause-at_nothing_else c = λ n s r given stores other. silent.at_nothing_else n s r stores given other
