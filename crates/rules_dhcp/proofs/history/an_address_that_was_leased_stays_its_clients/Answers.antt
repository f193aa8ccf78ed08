use Rattle.rules_dhcp.proofs.Lasting.{stays, nobody_else, refused, offered_again, leased_again}
use Rattle.rules_dhcp.proofs.history.an_address_that_was_leased_stays_its_clients.Goals as goal

pub returns-clause-stays : goal.returns-clause-stays
returns-clause-stays c = λ config before later r m place at leased. stays config before later r m place leased at

pub returns-clause-nobody_else : goal.returns-clause-nobody_else
returns-clause-nobody_else c = λ config before later r x m n place leased. nobody_else config before later r m place leased x n

pub returns-clause-refused : goal.returns-clause-refused
returns-clause-refused c = λ config before later r x m n place leased. refused config before later r m place leased x n

pub returns-clause-offered_again : goal.returns-clause-offered_again
returns-clause-offered_again c = λ config before later r x m n place leased. offered_again config before later r m place leased x n

pub returns-clause-leased_again : goal.returns-clause-leased_again
returns-clause-leased_again c = λ config before later r x m n place leased. leased_again config before later r m place leased x n
