-- What is lent stays in its places from one call to the next.
use mathlib.Core.Path.{refl, ◌∙◌}
use Rattle.listing.specs.Lent.{SamePlaces}
use Rattle.listing.specs.declared.Listing.{Listing}

pub same_places : (l : Listing) → SamePlaces l l
same_places l = record {
  locations = refl;
  edges = refl;
  index = refl;
  locations_length = refl;
  edges_length = refl;
  index_length = refl;
}

pub same_on : {l l' l'' : Listing} → SamePlaces l l' → SamePlaces l' l'' → SamePlaces l l''
same_on p q = record {
  locations = q.locations ∙ p.locations;
  edges = q.edges ∙ p.edges;
  index = q.index ∙ p.index;
  locations_length = q.locations_length ∙ p.locations_length;
  edges_length = q.edges_length ∙ p.edges_length;
  index_length = q.index_length ∙ p.index_length;
}
