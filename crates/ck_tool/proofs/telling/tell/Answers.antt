use Rattle.ck_tool.specs.Ran.{told, cut}
use Rattle.ck_tool.proofs.telling.tell.Goals as goal

pub returns-in-Ok : goal.returns-in-Ok
returns-in-Ok g c = told c.in-Ok.ensures.all

pub returns-in-Err : goal.returns-in-Err
returns-in-Err g c =
    let claims = c.in-Err.ensures in
    cut (c.in-Err.field-0.written, claims.fewer, claims.front, claims.cause)
