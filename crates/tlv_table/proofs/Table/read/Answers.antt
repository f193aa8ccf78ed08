-- What is read is what the grammar says.
use Rattle.std.proofs.Common.{◌∙◌}
use Rattle.tlv_table.proofs.Laws.{list_read, no_list_read, found_listed, fault_shown}
use Rattle.tlv_table.proofs.Table.read.Goals as goal

pub returns-clause-found : goal.returns-clause-found
returns-clause-found g c = found_listed c.args.self.now.form c.args.self.now.rows c.args.octets.now c.fields_of.result c.fields_of.ensures

pub returns-clause-only : goal.returns-clause-only
returns-clause-only g c found is = c.fields_of.ensures ∙ list_read c.args.self.now.form c.args.self.now.rows c.args.octets.now found is

pub returns-clause-fault : goal.returns-clause-fault
returns-clause-fault g c = fault_shown c.args.self.now.form c.args.self.now.rows c.args.octets.now c.fields_of.result c.fields_of.ensures

pub returns-clause-only_fault : goal.returns-clause-only_fault
returns-clause-only_fault g c fault is = c.fields_of.ensures ∙ no_list_read c.args.self.now.form c.args.self.now.rows c.args.octets.now fault is
