-- Laws behind the proofs of the reader's functions, and its round trip.
pub mod BytesLaws
pub mod ScanLaws
pub mod Numbers
pub mod Decimals
pub mod Words
pub mod Series
pub mod SeveralLaws
pub mod Tables
pub mod Messages
pub mod Events
pub mod Openings
pub mod Skimming
pub mod Lengths
pub mod RoundTrip
