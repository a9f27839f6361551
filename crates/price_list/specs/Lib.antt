pub mod PriceList
