-- What every layer above shares.
pub mod Tests
pub mod Choice
pub mod Count
pub mod Members
pub mod Scan
pub mod ScanLaws
pub mod Sets
pub mod SetLaws
pub mod Factors
