use Rattle.bpf_model.proofs.Prelude.{◌≡◌, ◌*◌, ◌%◌, ◌^◌, ◌≤◌, arith, mod-eq_of_lt, mod_below, pow_pos, mul-le}
use Rattle.scalar_domain.proofs.Multiples.{product_within}
use Rattle.scalar_domain.proofs.scalar.Scalar.multiply.Goals as goal

pub returns-in-Some : goal.returns-in-Some
returns-in-Some c = λ x y p q h k.
    let a = c.args.self in
    let b = c.args.other in
    let u : x * y ≤ a.greatest * b.greatest = mul-le x y a.greatest b.greatest h.greatest k.greatest in
    let v : a.least * b.least ≤ x * y = mul-le a.least b.least x y h.least k.least in
    let e : (x * y) % 2 ^ 64 ≡ x * y = mod-eq_of_lt (omega (arith, u, c.in-Some.ensures)) in
    let f : (a.least * b.least) % 2 ^ 64 ≡ a.least * b.least = mod-eq_of_lt (omega (arith, u, v, c.in-Some.ensures)) in
    c.masked.ensures.sound ((x * y) % 2 ^ 64) (omega (arith, e, f, v)) (omega (arith, e, u, c.in-Some.ensures))
    (product_within x y a.may b.may c.ones_from.result c.ones_from-2.result c.ones_from.ensures.multiples c.ones_from-2.ensures.multiples h.zeros k.zeros)

pub returns-in-None : goal.returns-in-None
returns-in-None c = λ x y p q h k.
    c.masked-in-None.ensures.sound ((x * y) % 2 ^ 64) (omega arith) (omega (arith, mod_below (x * y) (2 ^ 64) (pow_pos 64)))
    (product_within x y c.args.self.may c.args.other.may c.ones_from.result c.ones_from-2.result
    c.ones_from.ensures.multiples c.ones_from-2.ensures.multiples h.zeros k.zeros)
