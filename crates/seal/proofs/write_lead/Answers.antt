-- `seal::write_lead` meets its contract: each arm is the kind's own writer. Assumes nothing.
use Rattle.seal.proofs.write_lead.Goals as goal

pub write_standard_lead-requires : goal.write_standard_lead-requires
write_standard_lead-requires c = rw c.in-Standard.is at c.requires

pub write_advanced_lead-requires : goal.write_advanced_lead-requires
write_advanced_lead-requires c = rw c.in-Advanced.is at c.requires

pub returns-in-Standard : goal.returns-in-Standard
returns-in-Standard c = rw c.in-Standard.is c.write_standard_lead.ensures

pub returns-in-Advanced : goal.returns-in-Advanced
returns-in-Advanced c = rw c.in-Advanced.is c.write_advanced_lead.ensures
