-- The output was written, or a part of it; or the stop was explained.
use Rattle.std.proofs.Common.{refl}
use Rattle.ck_tool.specs.Ran.{done, writing}
use Rattle.ck_tool.proofs.Ends.{by_stop}
use Rattle.ck_tool.proofs.top.finish.Goals as goal

pub returns-in-Ok-put_all : goal.returns-in-Ok-put_all
returns-in-Ok-put_all g c = λ words right.
    done c.in-Ok.output.items (rw c.in-Ok.is refl) (rw c.as_slice.ensures.value at c.in-Ok-put_all.ensures.all) refl

pub returns-in-Ok : goal.returns-in-Ok
returns-in-Ok g c = λ words right.
    let fault = rw c.as_slice.ensures.value at c.in-Err-put_all.ensures in
    writing _ c.in-Ok.output.items (rw c.in-Ok.is refl)
    (c.in-Err-put_all.field-0.written, fault.fewer, fault.front, fault.cause) c.tell.ensures

pub returns : goal.returns
returns g c = λ words right. by_stop _ _ _ _ _ c.in-Err.stop c.in-Err.is right refl c.explain.ensures
