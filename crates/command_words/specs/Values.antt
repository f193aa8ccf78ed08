-- What the value of an option can be.
use Rattle.std.specs.Prelude.{ℕ}
use Rattle.net_octets.specs.declared.Endpoint.{Endpoint}
use Rattle.world_face.specs.Journal.{Place}
use Rattle.command_words.specs.declared.options.Kind.{Kind}
use Rattle.command_words.specs.declared.options.Kind.TheVariants.{Nothing, Text, Short, Number, Address, AddressPort, Network, Link}
use Rattle.command_words.specs.Options.{Word}
use Rattle.address_text.specs.Texts.{IsNumber, IsAddress, IsEndpointText}
use Rattle.command_words.specs.Texts.{IsNetwork, IsLink}

abbrev pub CanHave : Kind → Word → Type 0
CanHave Nothing value = Unit {0}
CanHave Text value = Unit {0}
CanHave Short value = (n : ℕ) × IsNumber 16 value n
CanHave Number value = (n : ℕ) × IsNumber 64 value n
CanHave Address value = (a : ℕ) × IsAddress value a
CanHave AddressPort value = (at : Endpoint) × IsEndpointText value at
CanHave Network value = (network : ℕ) × (mask : ℕ) × IsNetwork value network mask
CanHave Link value = (at : Place) × IsLink value at
