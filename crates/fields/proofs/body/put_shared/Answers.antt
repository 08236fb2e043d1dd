-- `fields::put_shared` meets its contract. Each field is put where the fields before it end. Assumes nothing.
use Rattle.envelope.specs.Envelope.{body_size}
use Rattle.envelope.proofs.Putting.{none_put, then_put}
use Rattle.fields.specs.Fields.{double, field}
use Rattle.fields.proofs.body.put_shared.Goals as goal

pub returns : goal.returns
unfolding body_size
returns c =
    let p0 = none_put c.args.out.now 6 c.args.a.now in
    let p1 = then_put (field 1 (λ x. x.number)) p0 c.put_number.ensures in
    let p2 = then_put (field 2 (λ x. x.k)) p1 c.put_number-2.ensures in
    let p3 = then_put (field 4 (λ x. x.place)) p2 c.put_number-3.ensures in
    let p4 = then_put (field 4 (λ x. x.estimate.c)) p3 c.put_number-4.ensures in
    let p5 = then_put (field 4 (λ x. x.estimate.n)) p4 c.put_number-5.ensures in
    let p6 = then_put (field 4 (λ x. x.estimate.max_run_len)) p5 c.put_number-6.ensures in
    let p7 = then_put (field 4 (λ x. x.rounds)) p6 c.put_number-7.ensures in
    let p8 = then_put (double (λ x. x.estimate.p_global)) p7 c.put_double.ensures in
    let p9 = then_put (double (λ x. x.estimate.p_global_prime)) p8 c.put_double-2.ensures in
    let p10 = then_put (double (λ x. x.estimate.p_local)) p9 c.put_double-3.ensures in
    (then_put (double (λ x. x.estimate.min_entropy)) p10 c.put_double-4.ensures).stored
