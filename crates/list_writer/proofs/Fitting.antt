-- What the operands of an event that fits can be.
use Prim.Native.Nat.{ℕ, ◌<◌}
use native.Mathlib.Omega.{arith}
use mathlib.Core.Path.{◌≡◌}
use mathlib.Core.Bool.{true}
use mathlib.Core.List.{List, ◌∷◌}
use borrow.Author.Tests.{leb-true}
use Rattle.rules.specs.declared.Event.{Event}
use Rattle.rules.specs.declared.Event.TheVariants.{Create, Give, Call, Reply, Block, Wake, Charge, Abort, Refill, Remove, Rank}
use Rattle.rules.specs.Tests.{all}
use Rattle.rules.specs.EventFile.{byte, fits}
use Rattle.rules.proofs.Basics.Members.{all_head, all_tail}

abbrev pub Small : Event → Type 0
Small (Create n r) = n < 256
Small (Give t n priority quantum) = (t < 256) × (n < 256) × (priority < 256) × (quantum < 65536)
Small (Call n) = n < 256
Small Reply = Unit {0}
Small Block = Unit {0}
Small (Wake n) = n < 256
Small (Charge units) = units < 65536
Small (Abort n) = n < 256
Small (Refill t) = t < 256
Small (Remove n) = n < 256
Small (Rank t priority) = (t < 256) × (priority < 256)

first : (n : ℕ) (l : List ℕ) → all byte (n ∷ l) ≡ true → n < 256
first n l h = omega (arith, leb-true n 255 (all_head byte n l h))

pub small : (e : Event) → fits e ≡ true → Small e
small (Create n r) h = first n _ h
small (Give t n priority quantum) h =
    let second = all_tail byte t _ h in
    let third = all_tail byte n _ second in
    let fourth = all_tail byte priority _ third in
    (first t _ h, first n _ second, first priority _ third, omega (arith, first _ _ fourth))
small (Call n) h = first n _ h
small Reply h = tt
small Block h = tt
small (Wake n) h = first n _ h
small (Charge units) h = omega (arith, first _ _ h)
small (Abort n) h = first n _ h
small (Refill t) h = first t _ h
small (Remove n) h = first n _ h
small (Rank t priority) h = (first t _ h, first priority _ (all_tail byte t _ h))
