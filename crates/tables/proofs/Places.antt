-- Two places are the same where kind and number are.
use mathlib.Core.Path.{◌≡◌, refl}
use mathlib.Core.Bool.{false, cond}
use lib.Dec.{eqb}
use Rattle.rules.specs.declared.Place.{Place}
use Rattle.rules.specs.declared.Place.TheVariants.{Queue, Behind, On, Stalled, Spent}
use Rattle.tables.specs.Sets.{set_of, kind_of, number_of}

pub same_place : (place set : Place)
    → set_of set place ≡ cond (eqb (kind_of place) (kind_of set)) (eqb (number_of place) (number_of set)) false
same_place Queue Queue = refl
same_place Queue (Behind u) = refl
same_place Queue (On m) = refl
same_place Queue Stalled = refl
same_place Queue Spent = refl
same_place (Behind t) Queue = refl
same_place (Behind t) (Behind u) = refl
same_place (Behind t) (On m) = refl
same_place (Behind t) Stalled = refl
same_place (Behind t) Spent = refl
same_place (On n) Queue = refl
same_place (On n) (Behind u) = refl
same_place (On n) (On m) = refl
same_place (On n) Stalled = refl
same_place (On n) Spent = refl
same_place Stalled Queue = refl
same_place Stalled (Behind u) = refl
same_place Stalled (On m) = refl
same_place Stalled Stalled = refl
same_place Stalled Spent = refl
same_place Spent Queue = refl
same_place Spent (Behind u) = refl
same_place Spent (On m) = refl
same_place Spent Stalled = refl
same_place Spent Spent = refl
