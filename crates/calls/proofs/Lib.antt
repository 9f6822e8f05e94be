-- Laws that the functions' proofs share; the calls in meaning's terms; and that no two outcomes meet one promise.
pub mod Promises
pub mod CallLaws
pub mod GateLaws
pub mod NotifyLaws
pub mod MessageLaws
pub mod PackedLaws
pub mod RunLaws
pub mod Bridge
pub mod PlacesGiven
pub mod PackedBridge
pub mod Seen
pub mod UniqueGate
pub mod UniqueNullify
pub mod UniqueNotify
pub mod UniquePacked
pub mod OwnPromises
