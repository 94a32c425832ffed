-- `effects::clock::login` meets its contract: logged in by the password, else logged out. Assumes nothing.
use Rattle.effects.proofs.Done.{login-done}
use Rattle.effects.proofs.clock.login.Goals as goal

pub returns : goal.returns
returns c =
    let pre = c.requires in
    login-done _ pre.0 pre.1 c.same-equal.ensures c.set_login.ensures c.login_status.ensures c.plain.ensures
